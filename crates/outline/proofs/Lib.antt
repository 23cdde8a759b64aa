pub mod Levels
pub mod Outlining
