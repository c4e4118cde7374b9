pub mod Ahead
pub mod Plain
pub mod Records
