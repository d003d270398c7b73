pub mod SettingsLaws
pub mod ServingLaws
pub mod SampleRuns
