pub mod CountFacts
pub mod MergingFacts
pub mod TellingFacts
