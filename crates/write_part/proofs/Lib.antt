pub mod Tags
pub mod E0
pub mod AreaBytes
pub mod Blocks
pub mod E1
pub mod E1Places
pub mod PartReadBack
