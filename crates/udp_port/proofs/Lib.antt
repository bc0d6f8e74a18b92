mod AddressLemmas
mod PaceLemmas
mod CallsLemmas
