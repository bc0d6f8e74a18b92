pub mod Acting
pub mod Looks
pub mod Named
pub mod Plain
