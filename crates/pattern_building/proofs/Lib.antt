pub mod GivenFacts
pub mod BestFacts
pub mod CompleteFacts
pub mod LaterFacts
