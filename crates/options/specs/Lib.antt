pub mod Made
pub mod Options
pub mod Settings
pub mod Statuses
pub mod Values
pub mod Words
