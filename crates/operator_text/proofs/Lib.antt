pub mod CutLemmas
pub mod LastLemmas
pub mod NumberLemmas
pub mod PageLemmas
pub mod PagesLemmas
pub mod ReadingLemmas
pub mod RequestLemmas
pub mod SpellingLemmas
mod ReplyLemmas
