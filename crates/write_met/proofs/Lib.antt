pub mod Lists
pub mod Known
pub mod Servers
pub mod MetEntries
pub mod MetReadBack
