pub mod Offsets
pub mod Moving
pub mod Blocks
pub mod Filling
