pub mod Table
pub mod Place
pub mod Sweep
pub mod Gather
pub mod Accept
pub mod AcceptWords
