pub mod AgreeFacts
pub mod LookFacts
pub mod CompareFacts
pub mod EventFacts
pub mod LawFacts
