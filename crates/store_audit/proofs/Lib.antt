pub mod ListFacts
pub mod SameTrees
pub mod HandFacts
