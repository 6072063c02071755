pub mod CommandLine
pub mod Words
pub mod Gathering
pub mod Standing
pub mod Following
pub mod Outcome
