pub mod TreeAudits
pub mod Hands
