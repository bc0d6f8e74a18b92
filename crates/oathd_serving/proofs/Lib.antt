mod FaultLemmas
mod ServeLemmas
mod EndsLemmas
mod WordsLemmas
mod ReloadLemmas
