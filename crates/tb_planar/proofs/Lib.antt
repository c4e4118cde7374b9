pub mod Answering
pub mod Conducting
pub mod Enclosing
pub mod Errors
pub mod Parts
pub mod SideBySide
pub mod Sizes
pub mod Steps
