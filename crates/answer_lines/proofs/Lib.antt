pub mod LineFacts
pub mod PrintedFacts
pub mod PrintingFacts
