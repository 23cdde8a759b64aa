pub mod Accessors
pub mod Formed
pub mod Marks
pub mod Every
