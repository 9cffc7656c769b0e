pub mod Moves
pub mod Good
pub mod Lawful
pub mod Worked
pub mod Client
pub mod Opening
pub mod Turning
pub mod Batch
