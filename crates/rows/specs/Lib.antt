pub mod Labels
pub mod Rows
pub mod Tetrahedra
pub mod RowMeasure
pub mod Regions
pub mod Steps
