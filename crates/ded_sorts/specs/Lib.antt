pub mod Causes
pub mod Changes
pub mod Checks
pub mod Facts
pub mod Scopes
