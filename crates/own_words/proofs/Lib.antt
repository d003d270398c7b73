pub mod WordLaws
pub mod FrameLaws
pub mod CallLaws
pub mod SetupLaws
