pub mod Heat
pub mod Transmittances
