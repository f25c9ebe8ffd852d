pub mod LiningUp
pub mod NewMembers
pub mod SmallRuns
