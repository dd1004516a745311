pub mod Strict
pub mod Saves
pub mod EitherOrder
