pub mod FieldLemmas
pub mod RequestLemmas
