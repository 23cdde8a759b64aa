pub mod Picking
pub mod Eights
