pub mod Begun
pub mod Enrolled
pub mod Enrolment
pub mod Fault
pub mod Opened
pub mod Roster
pub mod Users
