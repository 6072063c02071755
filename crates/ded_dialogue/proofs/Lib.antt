pub mod Feeding
pub mod Hearing
pub mod OneMore
pub mod Reading
pub mod Sending
pub mod Steps
