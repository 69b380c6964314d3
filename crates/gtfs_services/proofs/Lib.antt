pub mod CalendarDateFacts
pub mod CalendarFacts
pub mod DateFacts
