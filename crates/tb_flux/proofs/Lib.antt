pub mod CellRows
pub mod Firsts
pub mod Hulls
pub mod Outflows
pub mod Parts
