pub mod Skips
pub mod WholeTags
