pub mod Entries
pub mod Finding
pub mod Keeping
pub mod Making
pub mod Moving
pub mod Pushing
pub mod Running
pub mod Standing
