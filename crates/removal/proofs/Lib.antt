pub mod RemovalAnswers
pub mod RemovalWritten
