pub mod HeadLemmas
pub mod TagLemmas
