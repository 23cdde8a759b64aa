pub mod Zeroing
pub mod FirstFailing
