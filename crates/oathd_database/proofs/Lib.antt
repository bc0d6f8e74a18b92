mod EndLemmas
pub mod FaultLemmas
mod TextLemmas
mod UsersLemmas
mod FloorsLemmas
mod LostLemmas
mod MadeLemmas
mod ReadyLemmas
mod DriftLemmas
mod LevelLemmas
mod UnlockLemmas
mod ReachLemmas
mod BootLemmas
mod AnewLemmas
pub mod BrokenLemmas
