pub mod Gaps
pub mod Pieces
pub mod Machine
pub mod Splits
pub mod Lexemes
pub mod Tokens
pub mod Fronts
