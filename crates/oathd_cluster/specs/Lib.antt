pub mod Broken
pub mod Examples
pub mod Fault
pub mod Line
pub mod Rounds
pub mod Run
