pub mod Ends
pub mod Hashing
pub mod Lookups
pub mod Nearby
pub mod Relations
pub mod Texts
pub mod Tuples
