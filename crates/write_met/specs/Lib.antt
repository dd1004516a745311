pub mod MetWrites
pub mod Lengths
pub mod MetEntries
