pub mod Ahead
pub mod Cases
pub mod FaultTexts
pub mod Faults
pub mod Limits
pub mod Rows
pub mod Table
