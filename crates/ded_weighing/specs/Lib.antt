pub mod Columns
pub mod Gathered
pub mod Meeting
pub mod Weighing
