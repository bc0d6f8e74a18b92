pub mod Datagrams
pub mod Examples
pub mod Ports
pub mod Stores
pub mod Unforged
