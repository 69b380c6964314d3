pub mod MemberFacts
pub mod WalkFacts
pub mod EventSteps
pub mod EventLaws
