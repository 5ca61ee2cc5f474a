pub mod TheSmallest
pub mod ClosedWalks
pub mod WalkStepwise
pub mod LinksClose
pub mod FirstPoint
