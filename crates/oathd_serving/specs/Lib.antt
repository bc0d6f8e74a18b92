pub mod Ends
pub mod Reload
pub mod Serve
pub mod Served
