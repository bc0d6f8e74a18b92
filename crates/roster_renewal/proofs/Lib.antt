pub mod TextLemmas
pub mod DropLemmas
pub mod RenewLemmas
