pub mod Statements
pub mod Journals
pub mod Invariant
pub mod Opening
pub mod Closing
