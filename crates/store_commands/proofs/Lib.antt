pub mod PartFacts
pub mod ServedFacts
pub mod TaskFacts
