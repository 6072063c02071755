pub mod Utmost
pub mod Closed
pub mod Convex
pub mod Listing
pub mod Near
pub mod Reading
pub mod Entered
