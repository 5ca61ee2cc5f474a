pub mod CaseCounts
