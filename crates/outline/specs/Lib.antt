pub mod Known
pub mod Output
