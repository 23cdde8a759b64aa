pub mod Books
pub mod Starred
pub mod InTurn
pub mod Output
