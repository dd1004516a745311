pub mod Even
pub mod Skips
