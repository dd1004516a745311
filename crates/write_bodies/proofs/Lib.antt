pub mod Bodies
pub mod RecordEntries
