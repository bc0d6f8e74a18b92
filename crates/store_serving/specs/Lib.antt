pub mod Broken
pub mod Ends
pub mod Log
pub mod Placed
pub mod Served
pub mod Through
