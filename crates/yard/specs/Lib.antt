pub mod Yards
pub mod Tests
