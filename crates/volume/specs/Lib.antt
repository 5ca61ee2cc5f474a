pub mod Volume
pub mod Steps
