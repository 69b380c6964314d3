pub mod Laws
pub mod Stops
pub mod Transfers
