pub mod Published
pub mod Timelines
pub mod Runs
pub mod Inputs
pub mod Doorways
pub mod Seen
pub mod Replies
pub mod Ended
