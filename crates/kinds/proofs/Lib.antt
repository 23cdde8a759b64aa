pub mod Reading
pub mod Bits
pub mod Laws
pub mod Together
