pub mod BootMark
pub mod Members
pub mod Apply
pub mod Standing
