pub mod Words
pub mod Encodes
pub mod Settings
pub mod Faults
