pub mod PartWrites
pub mod BlockSteps
