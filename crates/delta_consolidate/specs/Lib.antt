pub mod Delta
pub mod Filling
pub mod Gathering
pub mod Latest
pub mod Leading
pub mod Worked
