pub mod Word
pub mod Slots
