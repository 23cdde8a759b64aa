pub mod Named
pub mod Listing
pub mod Members
