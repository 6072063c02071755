pub mod Certified
pub mod Checks
pub mod Choosing
pub mod Pairs
pub mod Projecting
pub mod Seeking
pub mod Told
pub mod Tracing
