pub mod Asking
pub mod Holding
pub mod Polling
pub mod Reaching
pub mod Ending
