pub mod MetricLaws
pub mod SampleRuns
