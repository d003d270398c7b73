pub mod Mode
pub mod Settings
pub mod Serving
