pub mod Evicting
pub mod Publishing
pub mod RelayRule
pub mod Runs
pub mod Sending
pub mod Serving
