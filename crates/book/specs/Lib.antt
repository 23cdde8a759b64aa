pub mod Choose
pub mod Bytes
pub mod Writing
pub mod Cases
pub mod Refusals
pub mod Open
pub mod Lists
pub mod Tests
