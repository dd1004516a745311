pub mod Extents
pub mod Bodies
