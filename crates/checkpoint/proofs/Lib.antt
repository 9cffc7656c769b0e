pub mod Cursors
pub mod ReadBack
pub mod TextBounds
