pub mod ShownFacts
