pub mod Octets
pub mod Bits
pub mod Lists
pub mod Levels
pub mod Mask
