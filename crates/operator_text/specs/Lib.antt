pub mod Examples
pub mod Number
pub mod Page
pub mod Pages
pub mod Reading
pub mod Reply
pub mod Request
