pub mod Polls
pub mod Runs
pub mod Failing
