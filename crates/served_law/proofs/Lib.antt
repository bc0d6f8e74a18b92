pub mod Uses
pub mod Rows
pub mod Tokens
pub mod Seated
pub mod Raised
pub mod Enrolled
pub mod Devices
pub mod Stores
pub mod Orders
pub mod LoneRun
pub mod Processes
pub mod Runs
pub mod Openings
pub mod OrderedDevices
mod PlacedRuns
pub mod LonePlaced
