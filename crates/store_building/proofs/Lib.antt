pub mod OpenedFacts
pub mod BuildFacts
pub mod ServedFacts
