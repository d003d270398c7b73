pub mod Words
pub mod Frame
pub mod Tick
pub mod Setup
