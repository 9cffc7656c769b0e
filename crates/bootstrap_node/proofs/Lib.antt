pub mod Taken
pub mod Making
pub mod Talking
pub mod Still
pub mod DoorEnds
pub mod RunEnds
