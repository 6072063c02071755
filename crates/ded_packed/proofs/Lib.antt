mod Numbers
pub mod Putting
mod Taking
