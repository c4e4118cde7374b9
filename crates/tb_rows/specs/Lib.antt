pub mod Around
pub mod Cells
pub mod Filled
pub mod Rows
pub mod Runs
pub mod Sums
pub mod Widths
