pub mod Ways
pub mod Layers
pub mod Least
