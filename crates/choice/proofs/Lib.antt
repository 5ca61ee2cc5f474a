pub mod SideKnown
pub mod CandidateComputed
