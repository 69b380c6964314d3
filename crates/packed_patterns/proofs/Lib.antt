pub mod EndFacts
pub mod PackFacts
pub mod SortFacts
pub mod ContainsFacts
