pub mod Visiting
pub mod Answering
pub mod Pairs
pub mod Hyphens
pub mod Forms
pub mod Once
pub mod Walks
