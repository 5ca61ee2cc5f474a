pub mod Triangulation
pub mod Admissible
pub mod Best
pub mod Optimum
pub mod Steps
