pub mod WorstToBest
pub mod FirstEntries
pub mod LowestReplaced
pub mod WorstStays
