pub mod Batches
pub mod Counts
pub mod Examples
pub mod Members
pub mod Told
pub mod Unopened
