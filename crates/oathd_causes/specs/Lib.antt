pub mod Causes
pub mod Floors
pub mod Named
pub mod Remedies
pub mod Roster
