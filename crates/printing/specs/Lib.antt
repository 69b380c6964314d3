pub mod Told
pub mod Faults
pub mod Finished
pub mod Listed
pub mod Reports
pub mod Tellings
