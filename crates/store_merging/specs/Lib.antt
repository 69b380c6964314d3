pub mod Merges
pub mod Telling
