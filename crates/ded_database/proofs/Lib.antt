mod Adding
mod Beside
pub mod Closing
mod Listing
pub mod ListsStaying
pub mod Losing
mod LosingLines
mod LostReading
mod LostViews
mod Marking
pub mod MarksOfViews
mod NamesOfMarks
mod Others
mod OwnSlots
pub mod ReachedNames
mod Ready
mod Removal
pub mod Renewal
mod RowLines
mod Rowless
mod Staying
mod Told
pub mod Under
pub mod UsedNames
mod Views
