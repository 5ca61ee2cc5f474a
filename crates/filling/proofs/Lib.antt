pub mod CellFilled
