pub mod Patterns
pub mod Sorting
