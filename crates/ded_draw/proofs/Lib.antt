mod Gathered
mod Heard
mod Parsing
mod Accepting
mod Cutting
mod Pictures
