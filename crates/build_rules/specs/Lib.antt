pub mod Cut
pub mod Cuts
pub mod code
