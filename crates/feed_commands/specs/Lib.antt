pub mod Checks
pub mod Found
pub mod Finds
pub mod Matrices
