mod LooksLemmas
mod NamedLemmas
mod WordsLemmas
mod PlainLemmas
