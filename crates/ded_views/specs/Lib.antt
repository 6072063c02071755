pub mod Same
pub mod Reaching
pub mod Unaffected
