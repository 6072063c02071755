pub mod Covers
pub mod Exact
pub mod Extended
pub mod Gaps
pub mod Insides
pub mod Places
pub mod Shares
