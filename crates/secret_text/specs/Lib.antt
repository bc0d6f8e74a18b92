pub mod Base32
pub mod Bits
pub mod Examples
pub mod Hexadecimal
