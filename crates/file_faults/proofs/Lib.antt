pub mod ListFacts
pub mod KeyFacts
pub mod TableFacts
