pub mod Seating
pub mod Entries
pub mod Floors
pub mod Opened
pub mod Looked
pub mod Examples
