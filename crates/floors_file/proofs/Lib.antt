pub mod FieldLemmas
pub mod ReadingLemmas
pub mod WritingLemmas
pub mod GatheredLemmas
pub mod RoundLemmas
mod FitLemmas
pub mod SealedLemmas
pub mod NamedRowsLemmas
pub mod NamedReadingLemmas
pub mod NamedWritingLemmas
pub mod NamedGatheredLemmas
pub mod NamedSpellingLemmas
pub mod NamedRoundLemmas
mod GreatestLemmas
mod NamedFitLemmas
