pub mod Road
pub mod Layout
pub mod Facts
pub mod Tests
