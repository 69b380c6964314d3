pub mod Bools
pub mod SpanFacts
pub mod LookedFacts
pub mod ScanFacts
pub mod RowFacts
pub mod TripFacts
