pub mod Pieces
pub mod PutReadBack
pub mod RecordBack
pub mod Kept
pub mod Pairs
pub mod Lengths
pub mod Range
pub mod Puts
