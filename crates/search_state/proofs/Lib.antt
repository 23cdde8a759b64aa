pub mod Cells
pub mod Values
pub mod Choosing
pub mod Settling
pub mod Newest
