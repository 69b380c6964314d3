pub mod Low
pub mod Listed
pub mod LabelSteps
pub mod RowSteps
