pub mod IdentityLemmas
pub mod NamesLemmas
pub mod SeedLemmas
