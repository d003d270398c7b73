pub mod T1sLaws
pub mod EntriesLaws
pub mod TimersLaws
pub mod SampleRuns
