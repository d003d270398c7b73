pub mod Explains
pub mod Told
pub mod Words
