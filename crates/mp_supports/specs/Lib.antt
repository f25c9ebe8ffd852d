pub mod Work
pub mod Seeing
pub mod Supports
pub mod Kept
pub mod SmallParts
pub mod Steps
pub mod Agreement
pub mod Media
