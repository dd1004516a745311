pub mod Rising
pub mod Walk
pub mod Merged
pub mod Numbers
