pub mod Given
pub mod Whole
pub mod Pieces
