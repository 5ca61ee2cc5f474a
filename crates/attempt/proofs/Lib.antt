pub mod Attempted
