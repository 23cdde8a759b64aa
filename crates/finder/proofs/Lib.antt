pub mod Promises
pub mod VersionOne
pub mod Readers
