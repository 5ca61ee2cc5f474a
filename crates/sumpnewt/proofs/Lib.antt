pub mod HandedToC
