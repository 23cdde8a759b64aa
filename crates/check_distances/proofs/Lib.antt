pub mod Rows
pub mod Listing
pub mod Spanning
pub mod Regions
