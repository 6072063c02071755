pub mod Causes
pub mod Devices
pub mod InMemory
pub mod Standard
