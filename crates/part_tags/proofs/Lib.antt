pub mod Rest
pub mod TagLaws
pub mod SizeTags
pub mod Ranges
pub mod GapTags
pub mod Turns
pub mod Checks
