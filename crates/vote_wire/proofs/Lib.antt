pub mod FormatLemmas
pub mod SpellingLemmas
pub mod TagLemmas
