pub mod Schedules
pub mod SmallTries
