pub mod AnswerExamples
pub mod AnswerIndex
pub mod Answers
