pub mod Merged
pub mod Served
pub mod Tasks
pub mod Stored
pub mod Stores
