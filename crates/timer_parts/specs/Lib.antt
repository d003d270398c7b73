pub mod Heard
pub mod T1
pub mod T2
pub mod T3
