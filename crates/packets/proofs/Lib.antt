pub mod Arms
pub mod Heads
pub mod Links
pub mod Openings
