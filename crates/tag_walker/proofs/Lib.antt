pub mod TagEnds
pub mod Walks
