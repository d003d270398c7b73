pub mod Record
pub mod Keys
pub mod Step
pub mod Marks
pub mod React
pub mod Duty
pub mod Place
