pub mod Shape
pub mod Yards
pub mod Facts
pub mod Theorems
pub mod RegionYards
pub mod Tests
pub mod Arrays
pub mod Answer
