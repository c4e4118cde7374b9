pub mod Moves
pub mod FluxPasses
pub mod Sessions
pub mod Settings
pub mod Keeping
pub mod Leaving
