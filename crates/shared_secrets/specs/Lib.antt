pub mod Seed
pub mod Repeat
pub mod Examples
