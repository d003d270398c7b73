pub mod SearchLaws
pub mod ListsLaws
