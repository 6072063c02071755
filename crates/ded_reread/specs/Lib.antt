pub mod Formulas
pub mod Lines
pub mod Operands
pub mod ScriptWords
pub mod Words
