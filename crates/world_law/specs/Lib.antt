pub mod Broken
pub mod Bytes
pub mod Examples
pub mod SingleNode
pub mod Steady
pub mod Sweeps
pub mod Worlds
