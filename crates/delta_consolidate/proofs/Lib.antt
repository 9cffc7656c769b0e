pub mod Appending
pub mod Beyond
pub mod Consolidated
pub mod Fills
pub mod Keeping
pub mod Last
pub mod Stretch
