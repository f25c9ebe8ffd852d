pub mod Sights
pub mod Beginnings
pub mod Standing
pub mod CommitsAlone
pub mod Callers
pub mod CommitRecords
pub mod FreshRuns
mod Worked
