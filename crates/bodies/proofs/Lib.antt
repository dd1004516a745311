pub mod Data
pub mod StatusBits
