pub mod Quotients
pub mod MeshRows
pub mod Sharing
pub mod FaceRows
pub mod Tables
pub mod Lent
