pub mod PartFile
pub mod Inside
pub mod Skips
