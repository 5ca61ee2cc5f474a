pub mod SlicesFilled
pub mod LengthFirst
