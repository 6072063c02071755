pub mod Plane
pub mod Ranges
pub mod Vertices
pub mod Lists
pub mod Closures
pub mod Rows
pub mod Corners
pub mod Windows
