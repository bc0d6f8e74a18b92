mod AllowanceLemmas
pub mod PassLemmas
pub mod NodeStatusLemmas
pub mod TextLemmas
