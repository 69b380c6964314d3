pub mod BasisFacts
pub mod FaultFacts
pub mod LoopFacts
pub mod StageFacts
