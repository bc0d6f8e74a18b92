mod NamedLemmas
mod FloorsLemmas
mod TellingLemmas
mod ServedLemmas
mod PlacedLemmas
pub mod AnswerLemmas
mod BrokenLemmas
