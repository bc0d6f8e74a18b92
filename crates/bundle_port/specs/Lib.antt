pub mod Bundle
pub mod Bundler
pub mod Runs
pub mod Promises
pub mod Examples
