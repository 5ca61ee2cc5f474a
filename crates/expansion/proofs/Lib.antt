pub mod TreeWritten
pub mod TreeOfTable
