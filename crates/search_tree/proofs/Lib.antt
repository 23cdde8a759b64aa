pub mod Reading
pub mod Reporting
pub mod Preparing
pub mod Calling
pub mod Fields
