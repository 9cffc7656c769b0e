pub mod Stream
pub mod Decode
pub mod Scan
