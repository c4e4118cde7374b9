pub mod Filled
pub mod Gathering
pub mod Figures
pub mod Sizes
pub mod Sources
pub mod Reported
pub mod Transmittances
pub mod UValues
