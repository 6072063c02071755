pub mod Characters
pub mod Coordinates
pub mod Loops
pub mod Puts
