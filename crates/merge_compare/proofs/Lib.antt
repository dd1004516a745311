pub mod Answers
pub mod Encodings
pub mod Forms
pub mod Joined
pub mod PlainTags
pub mod Runs
