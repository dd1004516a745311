mod Writes
mod Numbers
pub mod Links
pub mod CallReadBack
