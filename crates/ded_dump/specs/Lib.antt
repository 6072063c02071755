pub mod Comparisons
pub mod Entries
pub mod Formulas
pub mod Headings
pub mod Operands
