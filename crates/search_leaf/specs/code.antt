pub mod Leaves
pub mod Next
pub mod Ready
