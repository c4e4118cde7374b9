pub mod Machine
pub mod OneRead
pub mod Plain
pub mod Turns
