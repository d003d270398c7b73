pub mod ReadLaws
pub mod FaultLaws
pub mod HelloLaws
pub mod KindLaws
pub mod SampleRuns
pub mod Positions
