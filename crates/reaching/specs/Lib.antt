pub mod Listed
pub mod Reached
pub mod Steps
pub mod TravelTimes
