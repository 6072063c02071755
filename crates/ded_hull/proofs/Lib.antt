pub mod Falling
pub mod Found
pub mod Halved
pub mod Merged
pub mod Middles
pub mod Rooted
