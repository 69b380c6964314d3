pub mod Next
pub mod Times
pub mod Windows
