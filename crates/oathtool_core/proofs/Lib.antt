pub mod CodeLines
pub mod OffsetLemmas
pub mod OrderLemmas
pub mod RunLemmas
pub mod TimeLemmas
pub mod WorkedDates
pub mod WorkedOffsets
