pub mod Feeding
pub mod Serving
pub mod Node
pub mod Pieces
pub mod Reading
pub mod Doorway
pub mod Passing
