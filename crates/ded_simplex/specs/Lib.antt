pub mod Ends
pub mod Sure
