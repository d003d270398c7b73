pub mod Duty
pub mod Why
pub mod Holds
pub mod SampleWhys
