pub mod AddressLemmas
pub mod ReadingLemmas
pub mod WritingLemmas
pub mod SharedLemmas
pub mod ClusterLemmas
pub mod OrderLemmas
pub mod RowsLemmas
