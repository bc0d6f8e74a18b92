pub mod Answer
pub mod Codes
pub mod Examples
pub mod Field
pub mod Request
