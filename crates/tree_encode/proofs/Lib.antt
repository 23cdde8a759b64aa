pub mod KindBytes
pub mod Sizes
pub mod Parts
pub mod Back
pub mod Small
pub mod Theorems
