pub mod Audits
pub mod Comparing
pub mod Lacks
pub mod Laws
