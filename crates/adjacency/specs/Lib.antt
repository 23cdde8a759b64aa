pub mod Arcs
pub mod Adjacency
