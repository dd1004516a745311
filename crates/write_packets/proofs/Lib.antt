pub mod Frames
pub mod Shapes
pub mod Judging
pub mod Encodings
pub mod Writes
pub mod PacketReadBack
