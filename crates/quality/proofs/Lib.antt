pub mod AtMostOne
pub mod QualityBounds
pub mod QualityComputed
pub mod QualityArranged
pub mod QualityOrder
pub mod WorstAndBest
pub mod SidesOfZero
pub mod ConsistentQualities
