pub mod Outward
pub mod CycleSums
pub mod Entering
pub mod Putting
