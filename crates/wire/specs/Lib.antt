pub mod WireAnswers
