pub mod Truth
pub mod Facts
pub mod Extremes
