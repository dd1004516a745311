pub mod AsKind
pub mod Lines
