pub mod Timers
pub mod Memory
pub mod Hellos
pub mod Outcome
pub mod Events
