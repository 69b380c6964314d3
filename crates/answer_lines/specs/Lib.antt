pub mod Audits
pub mod Moments
pub mod Printed
pub mod Printing
pub mod Reaches
pub mod Reports
pub mod Timed
