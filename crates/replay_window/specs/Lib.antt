pub mod Boots
pub mod Examples
pub mod Lives
pub mod Window
