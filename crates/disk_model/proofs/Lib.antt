mod Clock
mod Covered
mod Filled
pub mod Moments
mod Replayed
mod Sound
mod Stretches
