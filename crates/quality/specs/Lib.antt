pub mod Quality
pub mod Steps
