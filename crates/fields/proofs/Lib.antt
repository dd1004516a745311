pub mod Given
pub mod Fits
pub mod Same
