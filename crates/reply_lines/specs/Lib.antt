pub mod Printed
pub mod Tellings
