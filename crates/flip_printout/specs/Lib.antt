pub mod FlipPrintout
