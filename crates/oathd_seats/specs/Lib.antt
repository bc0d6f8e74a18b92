pub mod Commands
pub mod Examples
pub mod Fault
pub mod Seen
pub mod Unlock
