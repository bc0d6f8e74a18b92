pub mod FieldLemmas
pub mod SourceLemmas
pub mod BookLemmas
pub mod LinesLemmas
pub mod ReadingLemmas
pub mod WritingLemmas
pub mod WrittenFileLemmas
