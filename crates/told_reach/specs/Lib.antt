pub mod Reaches
pub mod Times
