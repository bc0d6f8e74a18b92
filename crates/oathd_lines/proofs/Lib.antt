pub mod RunLemmas
pub mod ServeLemmas
