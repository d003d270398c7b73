pub mod SampleBatches
pub mod BatchLaws
