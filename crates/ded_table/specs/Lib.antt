pub mod Tabled
pub mod Saying
pub mod Following
pub mod Wording
