pub mod Window
pub mod Used
