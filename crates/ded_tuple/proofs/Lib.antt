mod AtomOrders
pub mod Chains
mod Halving
pub mod Ordered
mod Places
mod SameAtoms
pub mod Shared
