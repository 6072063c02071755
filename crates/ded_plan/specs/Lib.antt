pub mod Planned
pub mod Plans
pub mod Rewrite
pub mod Rewritten
pub mod ScannedNames
pub mod Scans
