pub mod Seats
pub mod Below
pub mod Examples
pub mod Broken
pub mod Votes
pub mod Seeds
pub mod SeedSeats
pub mod SeedExamples
