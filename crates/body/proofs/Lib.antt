pub mod RightBodies
pub mod BodyWritten
pub mod BodyAnswers
