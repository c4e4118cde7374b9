pub mod Empty
pub mod Filled
pub mod Grids
pub mod Reordering
pub mod RoundedUp
pub mod Sides
pub mod Sums
