pub mod AddingFacts
pub mod Apart
pub mod ComparingFacts
pub mod ListingFacts
pub mod ReadingFacts
pub mod ShelfFacts
pub mod SpotFacts
