pub mod Openings
pub mod Builds
pub mod Replies
