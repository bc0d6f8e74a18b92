pub mod Cut
pub mod Number
pub mod Word
