pub mod DayFacts
pub mod FaultFacts
pub mod MergeFacts
