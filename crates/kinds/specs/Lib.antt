pub mod Kinds
pub mod Facts
