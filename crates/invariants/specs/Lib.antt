pub mod Invariants
pub mod Cutting
