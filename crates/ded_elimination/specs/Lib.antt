pub mod Adding
pub mod Equalities
pub mod Keeping
pub mod LinearAtoms
pub mod Pairs
