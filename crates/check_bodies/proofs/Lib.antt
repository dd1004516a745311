pub mod Places
pub mod Extents
pub mod Rules
