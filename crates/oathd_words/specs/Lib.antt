pub mod Broken
pub mod FormerWords
pub mod Given
pub mod InquiryWords
pub mod Members
pub mod NodesWords
pub mod StoreWords
pub mod Words
