pub mod Classes
pub mod Laws
pub mod Replacing
pub mod Sources
pub mod Turning
