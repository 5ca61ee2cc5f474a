pub mod RowsThatStay
pub mod BlockAfterwards
