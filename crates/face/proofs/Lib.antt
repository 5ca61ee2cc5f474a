pub mod FaceShared
