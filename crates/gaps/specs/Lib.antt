pub mod GapRecords
pub mod Marking
pub mod MarkingSteps
pub mod EitherOrder
