pub mod Client
pub mod Examples
pub mod Fault
pub mod Run
pub mod Secret
