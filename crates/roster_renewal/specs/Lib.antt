pub mod Text
pub mod Renewed
pub mod Examples
