pub mod AskingFacts
pub mod FeedFacts
pub mod NameFacts
pub mod PlanFacts
