pub mod FileFacts
pub mod LawFacts
pub mod LawFiles
