pub mod Both
pub mod Conjunctions
pub mod Eliminations
pub mod KindLaws
pub mod Verdicts
