pub mod Atoms
pub mod Kinds
pub mod Lent
pub mod Numbers
pub mod Putting
pub mod Taking
