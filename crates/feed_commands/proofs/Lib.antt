pub mod FoundFacts
pub mod TableFacts
