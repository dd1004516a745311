pub mod Nodes
pub mod Depths
pub mod Skips
