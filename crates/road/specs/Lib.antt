pub mod Walk
pub mod Dijkstra
pub mod Refusal
pub mod Facts
pub mod Tests
pub mod code
