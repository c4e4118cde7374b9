pub mod Judged
pub mod Carried
pub mod Turns
pub mod Cases
pub mod Whole
pub mod Certified
pub mod Lines
pub mod AcceptedLines
