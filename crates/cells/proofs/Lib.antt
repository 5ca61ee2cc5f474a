pub mod CellsRead
pub mod CellPlaces
