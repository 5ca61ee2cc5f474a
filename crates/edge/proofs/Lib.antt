pub mod EdgeAnswers
pub mod EdgeRinged
pub mod RingsKept
