pub mod AnswerFirst
