pub mod Text
pub mod Roster
pub mod Made
pub mod Opened
pub mod Enrolled
pub mod Read
pub mod Examples
