pub mod Flags
pub mod Restart
