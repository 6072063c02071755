pub mod AnswerReaches
pub mod Answers
pub mod ArgumentSlots
pub mod AscendingGoals
pub mod Combinations
pub mod Fits
pub mod FormulaReaches
pub mod GoalReaches
pub mod LineReaches
pub mod Longest
pub mod NameReaches
pub mod Names
pub mod PlanReaches
pub mod Points
pub mod Reached
pub mod Reaches
pub mod Renamed
pub mod RenamedReaches
pub mod Rows
pub mod Shapes
pub mod ShortArguments
pub mod ShortGoals
pub mod ShortLines
pub mod ShortNames
pub mod SlotCounts
pub mod Ties
mod WorkedOrders
mod WorkedWidths
