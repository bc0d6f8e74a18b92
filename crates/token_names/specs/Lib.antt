pub mod Identity
pub mod Names
pub mod Seed
pub mod Examples
