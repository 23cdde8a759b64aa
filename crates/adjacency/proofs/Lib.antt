pub mod Netting
pub mod Linking
pub mod Clearing
pub mod Chains
