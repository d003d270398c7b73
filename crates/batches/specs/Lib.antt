pub mod Batch
pub mod SampleBatches
