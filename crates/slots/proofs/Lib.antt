pub mod WordLaws
pub mod SlotLaws
pub mod ProbeLaws
