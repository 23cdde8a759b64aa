pub mod Roads
pub mod Rising
pub mod Reading
pub mod Layouts
pub mod FirstFailing
