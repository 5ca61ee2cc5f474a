pub mod RowsMeasured
pub mod WorstRowByRow
pub mod RowsInBytes
pub mod OpensMeasured
