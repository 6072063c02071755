pub mod Few
pub mod Lines
pub mod Orderly
pub mod Read
pub mod Rechecks
pub mod Remade
pub mod Runs
