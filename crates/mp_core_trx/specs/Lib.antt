pub mod Words
pub mod Parts
pub mod Events
pub mod World
pub mod Examples
pub mod Invariant
