pub mod Joined
pub mod Factors
