pub mod Beside
pub mod Row
