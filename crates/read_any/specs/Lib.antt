pub mod AnyAnswers
