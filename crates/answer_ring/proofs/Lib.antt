pub mod FoundLemmas
pub mod GrowLemmas
pub mod HalvingLemmas
pub mod KeepLemmas
pub mod LoseLemmas
pub mod OrderLemmas
