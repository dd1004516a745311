pub mod BodyAnswers
