pub mod Listings
pub mod Saving
pub mod Surviving
pub mod Moving
