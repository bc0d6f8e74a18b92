pub mod Commits
pub mod Members
pub mod Read
