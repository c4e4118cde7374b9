pub mod Along
pub mod Cuts
pub mod Inverse
pub mod Lines
pub mod Places
pub mod Ranges
