pub mod TakenFacts
