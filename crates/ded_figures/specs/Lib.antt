pub mod Axes
pub mod Figure
pub mod Sights
