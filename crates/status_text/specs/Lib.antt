pub mod Examples
pub mod Status
pub mod StatusLine
