pub mod CallTests
pub mod FlipTold
pub mod NumbersRead
pub mod SoundEdges
pub mod BestDecides
