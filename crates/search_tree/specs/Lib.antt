pub mod Found
pub mod code
