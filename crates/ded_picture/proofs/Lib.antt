mod Listing
mod Coloured
mod Layered
pub mod Showing
mod Cornering
pub mod Within
mod Stroked
