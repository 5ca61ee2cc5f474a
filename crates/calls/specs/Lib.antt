pub mod Summarising
pub mod Removing
pub mod Flipping
