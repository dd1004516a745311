pub mod TagAnswers
pub mod Skips
