pub mod Axis
pub mod CutPoints
pub mod Cuts
pub mod Direction
pub mod Grid
pub mod Level
pub mod Levels
pub mod Views
