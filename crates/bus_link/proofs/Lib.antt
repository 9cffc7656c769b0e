pub mod Fronts
pub mod News
pub mod Sums
