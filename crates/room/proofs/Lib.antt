pub mod TableLaws
pub mod SearchLaws
pub mod PlaceLaws
pub mod SweepLaws
pub mod AcceptLaws
