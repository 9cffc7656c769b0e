pub mod Chunk
pub mod Filling
pub mod Paging
pub mod Worked
