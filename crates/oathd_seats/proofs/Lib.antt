pub mod FaultLemmas
pub mod SeenLemmas
pub mod CommandLemmas
