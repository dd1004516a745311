pub mod Texts
pub mod Values
pub mod Candidates
pub mod Found
pub mod Joins
pub mod Answers
