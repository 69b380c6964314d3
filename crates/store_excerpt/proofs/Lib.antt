pub mod BoardFacts
mod ExcerptFacts
