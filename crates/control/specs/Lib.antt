pub mod Common
pub mod Words
pub mod Timing
pub mod Setup
