pub mod Marking
pub mod Steps
