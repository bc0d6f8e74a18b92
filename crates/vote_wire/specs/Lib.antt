pub mod Body
pub mod Bytes
pub mod Datagram
pub mod Examples
pub mod Key
