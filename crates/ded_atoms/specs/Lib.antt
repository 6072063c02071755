pub mod Kept
pub mod Laws
pub mod Orders
pub mod Own
pub mod Reading
pub mod Written
