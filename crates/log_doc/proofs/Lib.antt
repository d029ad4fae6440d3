pub mod Holding
pub mod Readable
pub mod WrittenEntries
pub mod WrittenItems
pub mod WrittenLogs
