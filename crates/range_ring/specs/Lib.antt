pub mod Words
pub mod Belonging
pub mod Stocked
pub mod Answering
pub mod Claims
pub mod Ranges
pub mod Opening
pub mod Parts
