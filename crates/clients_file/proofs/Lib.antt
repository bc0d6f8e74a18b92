pub mod AddressLemmas
pub mod ReadingLemmas
pub mod ClientsLemmas
