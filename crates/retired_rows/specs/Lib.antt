pub mod Staying
pub mod Renewed
pub mod Examples
