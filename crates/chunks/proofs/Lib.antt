pub mod SampleChunks
pub mod ChunkLaws
pub mod SlotLaws
