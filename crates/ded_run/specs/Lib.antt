pub mod CommandLine
pub mod Following
pub mod Made
pub mod OneSession
pub mod Parts
pub mod Words
