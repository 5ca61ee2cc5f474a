pub mod FieldsOfALine
pub mod LineLengths
