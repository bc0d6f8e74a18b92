pub mod BitsLemmas
pub mod HexLemmas
pub mod PaddingLemmas
pub mod ReadLemmas
pub mod WriteLemmas
pub mod LawLemmas
