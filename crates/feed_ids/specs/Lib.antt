pub mod Groups
pub mod NameLists
pub mod Names
