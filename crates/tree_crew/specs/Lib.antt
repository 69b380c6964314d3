pub mod Flushed
pub mod Showing
