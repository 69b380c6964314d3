pub mod GatherFacts
pub mod HopFacts
pub mod RideFacts
pub mod RowFacts
pub mod LayerFacts
pub mod SearchFacts
