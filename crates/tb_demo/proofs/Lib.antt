pub mod Lists
pub mod Computed
pub mod Limits
pub mod Hull
pub mod Accepted
pub mod LevelCells
