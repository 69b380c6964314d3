pub mod FewFacts
pub mod ScanFacts
pub mod LatestFacts
pub mod LeastFacts
