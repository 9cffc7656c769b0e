pub mod Selection
pub mod Rising
pub mod Spelling
pub mod Grammar
pub mod Reading
pub mod Faults
