pub mod Fluxes
pub mod Lending
pub mod Rows
pub mod Walks
