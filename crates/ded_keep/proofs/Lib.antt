pub mod Counting
pub mod ScanCounts
pub mod AdditivePlans
pub mod AloneMeanings
pub mod Appended
pub mod Covered
pub mod Leaving
pub mod Unmet
