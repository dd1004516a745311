pub mod PartTagAnswers
pub mod TagBytes
pub mod Survey
pub mod Pairs
