pub mod Status
pub mod Words
pub mod Options
pub mod Exchange
pub mod Doors
