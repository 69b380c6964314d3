pub mod LikeFacts
pub mod NextFacts
pub mod ToldFacts
pub mod WalkFacts
