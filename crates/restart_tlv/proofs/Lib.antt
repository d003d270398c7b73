pub mod RestartLaws
pub mod RoundTrip
