pub mod Refusals
pub mod ByNumber
pub mod ToldByNumber
