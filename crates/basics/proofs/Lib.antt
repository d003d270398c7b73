pub mod BoolLaws
pub mod BitLaws
pub mod Chain
pub mod ListLaws
pub mod OctetsLaws
pub mod MaskLaws
pub mod PartLaws
