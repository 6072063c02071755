pub mod Over
pub mod Plain
pub mod Reading
pub mod Spelling
pub mod Texts
