pub mod Defined
pub mod Journalled
pub mod Replies
pub mod Resumed
pub mod Running
