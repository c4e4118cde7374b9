pub mod Buffers
pub mod Counted
pub mod Faults
pub mod Limits
pub mod MemoryState
pub mod Outside
