pub mod Steps
pub mod EachNumber
pub mod CloseQualities
pub mod OtherOrder
pub mod RareSummaries
pub mod SixthPoint
pub mod LargerLists
