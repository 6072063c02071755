pub mod Sightings
pub mod Descriptions
pub mod Drawings
