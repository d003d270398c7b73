pub mod WholeLaws
pub mod PieceLaws
pub mod HandLaws
