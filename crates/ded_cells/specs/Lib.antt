pub mod Decimals
pub mod Extents
pub mod Lines
pub mod Spans
pub mod Tables
pub mod Writing
