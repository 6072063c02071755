mod Rows
mod Kept
mod Found
mod Databases
mod Closings
