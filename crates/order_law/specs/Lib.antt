pub mod Examples
pub mod Interleavings
pub mod Steps
pub mod Devices
pub mod NineNodes
