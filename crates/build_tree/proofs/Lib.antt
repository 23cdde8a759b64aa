pub mod Heading
pub mod Limits
pub mod Stated
pub mod Answering
pub mod Placing
pub mod Theorems
pub mod FirstFailing
