pub mod LimitLemmas
pub mod LineLemmas
pub mod UsersLemmas
