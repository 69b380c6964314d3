pub mod Asked
pub mod Batches
pub mod Lines
pub mod Tables
pub mod Writers
