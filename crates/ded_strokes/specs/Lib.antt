pub mod Bounds
pub mod Near
pub mod Strokes
pub mod Cuts
pub mod Stretches
