pub mod Atoms
pub mod Clashes
pub mod Comparisons
pub mod Rests
pub mod Sums
pub mod Units
