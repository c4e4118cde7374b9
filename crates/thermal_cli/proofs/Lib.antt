pub mod Commands
pub mod Demos
pub mod Endings
pub mod Fronts
pub mod Runs
pub mod Solving
