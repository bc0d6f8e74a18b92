pub mod Names
pub mod Wire
pub mod Translator
pub mod Port
pub mod Setup
pub mod Runs
pub mod Examples
