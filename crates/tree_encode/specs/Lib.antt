pub mod Encode
pub mod code
