pub mod Left
pub mod Feeds
pub mod Idle
pub mod Runs
pub mod Programs
pub mod Searches
