pub mod TextLemmas
pub mod MakingLemmas
pub mod NamesLemmas
pub mod CommitLemmas
pub mod OpeningLemmas
pub mod EnrolLemmas
pub mod ReadingLemmas
pub mod ExampleLemmas
