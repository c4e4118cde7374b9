pub mod Sets
pub mod Halves
