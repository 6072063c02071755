pub mod Boxes
pub mod Extents
pub mod Intervals
