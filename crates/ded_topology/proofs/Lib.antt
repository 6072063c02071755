pub mod Arguments
pub mod Closed
pub mod Interiors
pub mod MadeNames
pub mod Normals
pub mod SortedSame
pub mod Weak
pub mod WideNames
