pub mod Answered
pub mod Joining
pub mod Reading
pub mod Settled
