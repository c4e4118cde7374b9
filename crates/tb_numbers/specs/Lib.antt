pub mod Quotients
pub mod Reading
pub mod Texts
