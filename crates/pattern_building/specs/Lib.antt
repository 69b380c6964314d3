pub mod RoundPairs
pub mod Lowered
pub mod Latest
