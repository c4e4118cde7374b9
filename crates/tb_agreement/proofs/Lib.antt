pub mod Accepted
pub mod Faultless
pub mod OneFault
pub mod Determined
