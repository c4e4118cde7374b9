pub mod Judged
pub mod Narrower
pub mod Plain
