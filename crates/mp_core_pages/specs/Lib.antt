pub mod LockWords
pub mod Histories
pub mod PageParts
pub mod PageEvents
pub mod PageWorld
pub mod PageInvariant
pub mod Briefs
pub mod PageExamples
