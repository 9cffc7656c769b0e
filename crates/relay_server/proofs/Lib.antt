pub mod Sendings
pub mod Streams
pub mod Behind
