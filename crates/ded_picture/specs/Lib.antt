pub mod Colours
pub mod Parts
pub mod Windowing
pub mod Sheets
pub mod Layers
