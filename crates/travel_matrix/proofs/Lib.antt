pub mod CellFacts
pub mod PartFacts
