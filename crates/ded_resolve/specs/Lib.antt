pub mod Readable
pub mod Ready
pub mod Resolved
pub mod Scope
pub mod Sides
pub mod Storing
pub mod TextSums
pub mod Tuples
