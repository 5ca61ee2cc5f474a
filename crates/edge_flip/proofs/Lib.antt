pub mod FlippedEdges
