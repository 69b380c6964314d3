pub mod ZipFacts
pub mod AskedFacts
pub mod LineFacts
pub mod BatchFacts
