pub mod Ways
pub mod Entries
pub mod Moves
