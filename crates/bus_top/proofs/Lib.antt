pub mod Streams
pub mod Pieces
pub mod Turns
pub mod Placed
pub mod Answering
pub mod Promise
pub mod Starts
