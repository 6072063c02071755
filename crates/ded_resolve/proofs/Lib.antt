pub mod Accepted
pub mod Ascending
pub mod Denominators
mod Differences
pub mod Fitting
mod NormalGoals
pub mod Operands
mod Overs
pub mod Readiness
pub mod Reading
pub mod Shared
pub mod ShortRows
pub mod ShortTuples
pub mod SlotNumbers
pub mod Summing
