pub mod GapRecords
pub mod MarkingSteps
pub mod Marking
pub mod EitherOrder
pub mod Cases
