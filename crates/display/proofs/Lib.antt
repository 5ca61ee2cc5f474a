pub mod ElementsInOrder
pub mod ShownRows
