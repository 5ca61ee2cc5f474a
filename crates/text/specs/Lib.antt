pub mod Texts
pub mod Decimal
pub mod Steps
