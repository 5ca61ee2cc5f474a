pub mod RightBlocks
pub mod RightWritten
pub mod RoundTrip
pub mod OpenedAndSealed
pub mod AnswersDecided
