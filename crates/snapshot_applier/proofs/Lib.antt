pub mod BootTexts
pub mod Advancing
pub mod AppliedRows
pub mod Stands
