pub mod Asked
pub mod Examples
pub mod Fault
pub mod Inquiry
pub mod Report
pub mod Sent
pub mod Survey
pub mod Table
