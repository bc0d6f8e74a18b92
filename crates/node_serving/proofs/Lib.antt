pub mod StretchLemmas
mod KeyLemmas
