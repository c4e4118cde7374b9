pub mod Certified
pub mod Solved
