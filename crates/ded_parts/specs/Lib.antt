pub mod Distributing
pub mod Parts
pub mod Questions
pub mod Routes
