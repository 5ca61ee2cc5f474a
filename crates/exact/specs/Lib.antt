pub mod Fractions
