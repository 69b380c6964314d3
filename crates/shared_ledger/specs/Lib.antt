pub mod Bare
pub mod Seats
