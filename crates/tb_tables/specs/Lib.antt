pub mod Weights
pub mod MeshRows
pub mod Sharing
pub mod Sorts
pub mod Filled
pub mod Whole
