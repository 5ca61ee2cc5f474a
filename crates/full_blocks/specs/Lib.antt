pub mod FullBlocks
