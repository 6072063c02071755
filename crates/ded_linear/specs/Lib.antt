pub mod Intervals
pub mod Laws
pub mod Prunings
pub mod SlotLists
pub mod Told
