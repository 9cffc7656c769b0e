pub mod Links
pub mod Handed
pub mod Listed
pub mod Memory
pub mod Tcp
