pub mod Regions
pub mod Prepared
