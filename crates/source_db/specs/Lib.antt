pub mod Commit
pub mod Queue
