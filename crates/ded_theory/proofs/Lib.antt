pub mod Conjunctions
pub mod Merged
pub mod Parted
pub mod PartLaws
pub mod Pieces
pub mod TwoKinds
pub mod Shared
