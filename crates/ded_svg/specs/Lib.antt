pub mod Coordinates
pub mod Escaping
pub mod Markup
pub mod Palette
pub mod Pictures
