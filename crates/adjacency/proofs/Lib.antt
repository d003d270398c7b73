pub mod KeysLaws
pub mod ClearLaws
pub mod ReplyLaws
pub mod StepLaws
pub mod SampleRuns
pub mod SampleBare
