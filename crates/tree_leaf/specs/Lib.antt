pub mod Leaf
pub mod Facts
pub mod code
