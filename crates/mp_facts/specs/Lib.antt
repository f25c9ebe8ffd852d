pub mod Facts
pub mod Standing
pub mod SmallParts
pub mod SmallRuns
