pub mod Trees
pub mod Spelling
pub mod Forms
pub mod Scanning
pub mod Building
pub mod Gives
