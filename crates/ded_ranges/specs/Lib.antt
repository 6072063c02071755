pub mod Boxes
pub mod Codes
pub mod Coding
pub mod Limits
pub mod Reaches
pub mod Scaling
pub mod Tuples
pub mod Windows
