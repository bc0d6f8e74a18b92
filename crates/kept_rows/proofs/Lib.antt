pub mod RowLemmas
pub mod KeptLemmas
