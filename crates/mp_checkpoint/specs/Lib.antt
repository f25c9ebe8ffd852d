pub mod Saving
pub mod Emptying
