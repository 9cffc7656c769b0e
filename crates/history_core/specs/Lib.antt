pub mod Script
pub mod Steps
pub mod Run
pub mod Bus
pub mod Acting
pub mod Worked
pub mod Polling
pub mod Booting
