pub mod RoundAnEdge
pub mod FlipRows
