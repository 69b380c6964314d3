pub mod Keeping
pub mod LineFacts
pub mod Tabs
