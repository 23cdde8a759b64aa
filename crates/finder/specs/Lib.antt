pub mod Promises
pub mod Readers
pub mod Version
