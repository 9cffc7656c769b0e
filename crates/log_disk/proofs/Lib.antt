pub mod Calls
pub mod Contents
pub mod Moments
pub mod Past
pub mod Untold
