pub mod Entries
pub mod Port
pub mod Setup
