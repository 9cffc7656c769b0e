pub mod Steady
pub mod Shared
