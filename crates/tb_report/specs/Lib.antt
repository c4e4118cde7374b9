pub mod Ends
pub mod Values
pub mod Texts
pub mod Limits
pub mod Sound
