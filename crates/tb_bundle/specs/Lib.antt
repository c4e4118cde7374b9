pub mod Bodies
pub mod Bundles
pub mod Details
pub mod Limits
