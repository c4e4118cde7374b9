pub mod Quotients
pub mod Spread
pub mod FieldTerms
pub mod FluxTerms
pub mod Wide
