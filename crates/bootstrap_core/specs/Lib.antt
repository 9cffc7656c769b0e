pub mod Boot
pub mod Opening
pub mod Logging
pub mod Moving
pub mod Trimming
pub mod Replaying
pub mod Answering
