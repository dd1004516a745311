pub mod Numbers
pub mod NumberSteps
pub mod EitherOrder
