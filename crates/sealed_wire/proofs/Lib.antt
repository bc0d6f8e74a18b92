pub mod BodyLemmas
pub mod MakingLemmas
pub mod ReportLemmas
pub mod TagLemmas
