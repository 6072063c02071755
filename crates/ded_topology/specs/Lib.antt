pub mod Closing
pub mod Names
pub mod Weakening
