pub mod Bytes
pub mod Head
pub mod Datagram
pub mod Examples
