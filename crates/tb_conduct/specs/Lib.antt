pub mod Pairs
pub mod Coupling
