pub mod Calls
pub mod CommitLogs
pub mod Statuses
