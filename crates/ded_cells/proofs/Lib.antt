pub mod Bounds
pub mod Digits
pub mod Loops
pub mod Written
