pub mod Examples
pub mod Input
pub mod Users
