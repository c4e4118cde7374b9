pub mod Air
pub mod Filled
pub mod Passable
pub mod Kept
