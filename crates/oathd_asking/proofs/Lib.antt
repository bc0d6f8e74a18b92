mod PageLemmas
mod RequestLemmas
mod StateLemmas
mod TableLemmas
