pub mod Calendar
pub mod CalendarDates
pub mod Dates
pub mod Laws
pub mod Trips
