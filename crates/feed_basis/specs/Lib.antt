pub mod Basis
pub mod BasisFaults
pub mod Ids
pub mod Points
pub mod Stages
