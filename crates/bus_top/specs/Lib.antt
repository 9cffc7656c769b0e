pub mod Session
pub mod Trace
pub mod Turns
pub mod Headline
pub mod Status
pub mod Nodes
