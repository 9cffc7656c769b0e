pub mod Lines
pub mod Marks
pub mod Surviving
pub mod Keeping
pub mod GoingOn
pub mod Reopened
