pub mod Query
pub mod Tests
pub mod code
