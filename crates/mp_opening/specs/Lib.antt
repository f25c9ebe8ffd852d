pub mod Openings
pub mod ReadingContents
pub mod OpeningLogs
pub mod BeginningChecks
pub mod SmallOpenings
