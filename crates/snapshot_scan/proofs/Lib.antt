pub mod Appending
pub mod Fills
pub mod Scanned
pub mod Viewed
pub mod Walking
