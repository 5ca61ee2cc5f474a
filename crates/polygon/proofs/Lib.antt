pub mod SameTriangles
pub mod Apart
pub mod Parting
pub mod CutsAreTrees
pub mod Coverings
pub mod OneTree
pub mod NoTreeTwice
pub mod HowManyWays
