pub mod Slices
pub mod Counting
pub mod Joining
pub mod Records
pub mod Cases
pub mod WholeRanges
pub mod Turns
