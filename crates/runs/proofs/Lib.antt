pub mod ClaimsHold
pub mod CuttingHolds
