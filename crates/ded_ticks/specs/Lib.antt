pub mod Labels
pub mod Scales
pub mod Steps
pub mod Ticks
