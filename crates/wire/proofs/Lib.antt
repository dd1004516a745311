pub mod Parts
pub mod Inside
pub mod Replies
pub mod Loops
pub mod Steps
