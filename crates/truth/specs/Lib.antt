pub mod TruthAnswers
