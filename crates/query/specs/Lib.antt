pub mod Nodes
pub mod Skips
pub mod QueryAnswers
