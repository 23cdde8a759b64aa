pub mod Starred
pub mod InTurn
pub mod Printing
