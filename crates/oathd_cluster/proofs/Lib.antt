mod AnswerLemmas
mod RunLemmas
