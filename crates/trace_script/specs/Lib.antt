pub mod Words
pub mod Name
pub mod Lines
pub mod Spelling
pub mod Reading
pub mod Input
pub mod Cutting
pub mod Printed
