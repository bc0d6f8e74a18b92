pub mod Told
pub mod Remade
pub mod Level
pub mod Made
pub mod Examples
