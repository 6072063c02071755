pub mod Few
pub mod Kept
pub mod Merged
pub mod Near
pub mod Picks
pub mod Taken
pub mod Texts
