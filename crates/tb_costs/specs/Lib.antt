pub mod Admissible
