pub mod Bounds
pub mod Measures
pub mod Rows
pub mod Tables
