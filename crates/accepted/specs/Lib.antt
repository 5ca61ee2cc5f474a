pub mod CallNumbers
pub mod Accepted
