pub mod EntryLines
pub mod Loops
pub mod Puts
