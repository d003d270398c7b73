pub mod LineLaws
pub mod FrameLaws
pub mod DutyLaws
pub mod StandingLaws
pub mod WhyLaws
pub mod SampleWhys
