pub mod Writers
pub mod Item
pub mod There
pub mod Numbers
pub mod Puts
