pub mod Candidates
pub mod Solved
