pub mod Below
pub mod Chosen
pub mod Combined
pub mod Farkas
mod Halves
pub mod Identities
pub mod Lengths
pub mod LinearTraces
pub mod Lows
pub mod Meeting
pub mod Multiplied
pub mod Nears
pub mod OwnEntries
pub mod PairChecks
pub mod PairEntries
pub mod Paired
mod Parts
pub mod Projections
pub mod Relations
pub mod ShortSums
mod Shown
pub mod Tagged
pub mod TwoNumbers
pub mod WeakRows
pub mod Widths
