pub mod Address
pub mod Receipt
pub mod Calls
pub mod Pace
pub mod Setup
pub mod Examples
