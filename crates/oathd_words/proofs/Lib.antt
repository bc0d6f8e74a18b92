mod MembersLemmas
mod NodesLemmas
mod ServeLemmas
mod WordsLemmas
pub mod FormerLemmas
