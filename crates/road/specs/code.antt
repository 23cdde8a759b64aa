pub mod Queue
pub mod Rows
