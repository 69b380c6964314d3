pub mod Finding
pub mod MergeFacts
pub mod GoingFacts
pub mod Runs
