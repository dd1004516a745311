pub mod PutAnswers
pub mod Pieces
