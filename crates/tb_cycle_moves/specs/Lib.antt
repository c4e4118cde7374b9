pub mod Reaches
pub mod Courses
pub mod Turns
