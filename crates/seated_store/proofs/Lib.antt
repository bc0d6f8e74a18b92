pub mod SeatLemmas
pub mod CallLemmas
pub mod PlaceLemmas
