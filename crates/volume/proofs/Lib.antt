pub mod PointsInBytes
pub mod PointPolynomials
pub mod VolumeIdentities
pub mod VolumeBounds
pub mod VolumeFits
pub mod VolumeComputed
