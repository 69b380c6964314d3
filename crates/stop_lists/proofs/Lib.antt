pub mod MarkFacts
pub mod ListFacts
pub mod PlaceFacts
