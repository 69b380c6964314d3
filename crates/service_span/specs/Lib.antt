pub mod Days
pub mod Spans
pub mod TripCounts
pub mod Idle
pub mod Looked
pub mod Laws
