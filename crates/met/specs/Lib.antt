pub mod MetAnswers
