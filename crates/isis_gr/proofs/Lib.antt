pub mod NumberLaws
pub mod EncodesLaws
pub mod SettingsLaws
pub mod FaultLaws
pub mod DigitLaws
