pub mod Disk
pub mod File
pub mod Pending
pub mod Memory
pub mod Rooms
