pub mod CrewList
pub mod Reading
pub mod FirstFailing
pub mod Coding
