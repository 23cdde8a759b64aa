pub mod Build
pub mod Building
pub mod Facts
