pub mod Layout
pub mod PlainSums
pub mod Within
