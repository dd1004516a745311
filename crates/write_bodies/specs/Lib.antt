pub mod PutBodies
pub mod RecordEntries
