pub mod ScoreLargest
pub mod BadnessLeast
pub mod OctaveLargest
