pub mod Latest
pub mod Patterns
