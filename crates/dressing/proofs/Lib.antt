pub mod NewMarks
pub mod RowsDressed
pub mod NewRowsDressed
pub mod MarksThatGo
