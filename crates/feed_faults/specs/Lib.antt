pub mod Files
pub mod Lists
pub mod Opened
pub mod Laws
