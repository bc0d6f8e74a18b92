pub mod Body
pub mod Bytes
pub mod Examples
pub mod Key
pub mod Making
pub mod Report
pub mod Sealed
