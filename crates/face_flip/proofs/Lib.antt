pub mod FlippedFaces
pub mod FaceGiven
