pub mod Built
pub mod Calls
