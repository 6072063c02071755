pub mod Meetings
pub mod Shown
mod Signs
pub mod Slotted
mod Sums
pub mod Vanishing
mod Walking
