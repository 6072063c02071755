pub mod Levels
pub mod Chains
pub mod Complete
pub mod Sound
pub mod Told
pub mod Tells
pub mod Leaves
pub mod Carried
