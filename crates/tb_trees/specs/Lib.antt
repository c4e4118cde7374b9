pub mod Flags
pub mod Bodies
