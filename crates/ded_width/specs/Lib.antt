pub mod Orderly
pub mod Reach
