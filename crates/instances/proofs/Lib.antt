pub mod EachNumber
pub mod SixthPoint
