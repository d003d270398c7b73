pub mod ToldLaws
pub mod DutyLaws
pub mod StandingLaws
pub mod MadeLaws
pub mod SilentLaws
pub mod ExplainsLaws
pub mod WordsLaws
