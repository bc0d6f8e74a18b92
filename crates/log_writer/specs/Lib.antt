pub mod Line
pub mod Waiting
pub mod Syslog
pub mod Examples
