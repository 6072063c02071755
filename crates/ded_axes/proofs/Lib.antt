pub mod Containing
pub mod Exponents
pub mod Floors
pub mod Near
pub mod Powers
pub mod Scaling
pub mod Sizes
pub mod Units
