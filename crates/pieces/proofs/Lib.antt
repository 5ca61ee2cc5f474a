pub mod TableFilled
pub mod TableOptimal
