pub mod SameBytes
pub mod TestsInTurn
