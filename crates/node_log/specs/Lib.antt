pub mod Asked
pub mod BadLines
pub mod Differing
pub mod Examples
pub mod Log
pub mod Members
pub mod Minute
pub mod Text
