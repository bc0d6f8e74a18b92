pub mod CheckLemmas
mod ClientsLemmas
mod FlushLemmas
mod KeyLemmas
mod LawLemmas
mod LinesLemmas
mod SecretLemmas
mod SetupLemmas
mod TallyLemmas
