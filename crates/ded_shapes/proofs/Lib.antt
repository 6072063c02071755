pub mod Others
pub mod Without
pub mod Tuples
pub mod Cornered
pub mod WindowCorners
