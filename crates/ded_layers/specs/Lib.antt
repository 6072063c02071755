pub mod Layers
pub mod Indexed
