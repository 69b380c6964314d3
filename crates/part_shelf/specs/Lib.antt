pub mod Comparing
pub mod Reading
pub mod Shelves
pub mod Spots
