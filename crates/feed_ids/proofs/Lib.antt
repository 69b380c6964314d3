pub mod Finding
pub mod Known
