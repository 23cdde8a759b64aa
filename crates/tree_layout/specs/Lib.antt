pub mod Values
pub mod Sizes
pub mod Decode
pub mod Refusal
pub mod Facts
pub mod Tests
pub mod code
pub mod Reading
