pub mod RowAcross
