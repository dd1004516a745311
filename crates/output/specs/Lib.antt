pub mod Agreement
pub mod WriteAnswers
