pub mod Inserting
pub mod Writing
pub mod Counting
pub mod Clearing
