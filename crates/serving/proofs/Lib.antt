pub mod KnownFacts
pub mod ReplyFacts
pub mod RunFacts
