pub mod Around
pub mod Heights
pub mod Places
pub mod Spans
pub mod WindowReading
