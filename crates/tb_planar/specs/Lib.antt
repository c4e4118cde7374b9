pub mod Bounds
pub mod Parts
pub mod Printed
pub mod Sections
pub mod Transmittance
