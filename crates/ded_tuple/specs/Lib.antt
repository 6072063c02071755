pub mod Places
pub mod TrueRows
