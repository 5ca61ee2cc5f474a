pub mod RowsAfterwards
