pub mod Numbers
pub mod Choosing
pub mod Models
pub mod Outcomes
pub mod Answers
pub mod EitherOrder
