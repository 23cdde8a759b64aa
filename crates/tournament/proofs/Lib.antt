pub mod Mending
pub mod Laws
pub mod Lowering
