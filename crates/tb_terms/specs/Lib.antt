pub mod Limits
pub mod Spread
pub mod Terms
pub mod Quantities
pub mod CutLaws
