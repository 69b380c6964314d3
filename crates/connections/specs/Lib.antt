pub mod Connections
pub mod Found
