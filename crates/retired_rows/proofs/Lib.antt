pub mod GreatestLemmas
pub mod StayLemmas
pub mod RenewLemmas
