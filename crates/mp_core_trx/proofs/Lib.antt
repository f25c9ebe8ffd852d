pub mod Words
pub mod Frames
pub mod Ids
pub mod Timestamps
pub mod Sight
pub mod SlotWords
pub mod Reliable
pub mod Keeps
pub mod Bounds
pub mod Law
pub mod Growth
pub mod Places
mod Worked
