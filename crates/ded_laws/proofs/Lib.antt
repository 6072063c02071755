pub mod AtomSlots
pub mod Classical
pub mod Closures
pub mod Computing
pub mod Decided
mod Examples
pub mod LineFree
pub mod Saying
pub mod TupleLengths
pub mod ValueForms
pub mod Weakened
mod WorkedNear
mod WorkedPlans
mod WorkedPoints
mod WorkedRows
