pub mod Neighbours
pub mod Search
pub mod Lists
