pub mod Fractions
pub mod Gcds
pub mod Lengths
pub mod Ring
pub mod Tests
pub mod Signs
