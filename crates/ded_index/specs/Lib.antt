pub mod Costs
pub mod Entries
pub mod Orders
pub mod Trees
