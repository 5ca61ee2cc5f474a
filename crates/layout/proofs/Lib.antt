pub mod CellsReadBack
pub mod BlockParts
pub mod SumLaws
pub mod PatchWritten
pub mod BytesOfSlices
