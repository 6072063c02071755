pub mod Additive
pub mod Adding
pub mod Behind
pub mod Remaining
pub mod Scans
