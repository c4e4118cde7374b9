pub mod Paths
pub mod Marks
pub mod Isolated
pub mod Spreading
