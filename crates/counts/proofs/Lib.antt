pub mod CellTotals
