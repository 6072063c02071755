pub mod Merging
pub mod Mixing
pub mod Multiples
pub mod Negation
pub mod Renaming
