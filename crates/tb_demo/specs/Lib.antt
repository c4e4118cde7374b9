pub mod Section
pub mod Line
pub mod Level
