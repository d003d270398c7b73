pub mod T1Laws
pub mod SampleRuns
