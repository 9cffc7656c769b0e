pub mod Kept
pub mod Parts
pub mod Runs
pub mod Slots
