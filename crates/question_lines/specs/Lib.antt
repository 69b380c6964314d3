pub mod Lines
pub mod Questions
pub mod Reading
