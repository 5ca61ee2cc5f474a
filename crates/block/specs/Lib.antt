pub mod Opening
pub mod Holding
