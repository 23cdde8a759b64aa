pub mod Lines
pub mod Numbers
pub mod ReadBack
pub mod Texts
pub mod Vectors
