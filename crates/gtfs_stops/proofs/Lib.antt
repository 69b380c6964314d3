pub mod LawFacts
pub mod TransferFacts
