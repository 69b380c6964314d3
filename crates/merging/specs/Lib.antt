pub mod Merging
pub mod Reads
pub mod Laws
