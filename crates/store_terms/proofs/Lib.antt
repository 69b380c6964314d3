pub mod OpeningFacts
pub mod MissingFacts
