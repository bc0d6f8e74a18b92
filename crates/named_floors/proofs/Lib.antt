pub mod ToldLemmas
pub mod RemadeLemmas
pub mod LevelLemmas
pub mod KeptLemmas
pub mod MadeLemmas
