pub mod Mark
pub mod Row
pub mod Labels
