pub mod Showing
pub mod FlushFacts
pub mod Sending
pub mod DeskSending
