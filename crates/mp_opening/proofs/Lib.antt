mod OpenedLogs
pub mod NothingAbove
mod OpenedNine
mod SmallMtrs
