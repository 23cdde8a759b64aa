pub mod District
pub mod Asking
