pub mod Windows
pub mod Changes
pub mod Cut
pub mod Scans
pub mod Splits
pub mod Whole
