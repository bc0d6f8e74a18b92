pub mod Datagrams
pub mod Examples
pub mod Names
pub mod Ports
pub mod Ranges
pub mod Stores
pub mod Unforged
