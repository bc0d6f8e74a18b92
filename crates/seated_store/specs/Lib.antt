pub mod Seats
pub mod Seated
pub mod Broken
pub mod Places
