pub mod Chunks
pub mod Words
pub mod SampleChunks
