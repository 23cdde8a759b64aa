pub mod Fitting
pub mod Printing
pub mod Taking
pub mod Vectors
