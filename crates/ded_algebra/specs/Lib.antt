pub mod Columns
pub mod Compile
pub mod Compiled
pub mod Evaluation
pub mod Gathering
pub mod Given
