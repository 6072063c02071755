pub mod Sifting
pub mod Sublists
