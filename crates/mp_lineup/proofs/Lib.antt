pub mod TakenAnswers
pub mod FirstRuns
pub mod FirstLogs
pub mod LogsAndIdle
pub mod MoreMembers
pub mod ListedDowns
