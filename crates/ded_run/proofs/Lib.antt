pub mod Accepting
pub mod Hearing
pub mod MadeCuts
pub mod Making
pub mod Parsing
pub mod Steps
