pub mod AllDefinitions
pub mod Facts
pub mod Joint
pub mod Marked
