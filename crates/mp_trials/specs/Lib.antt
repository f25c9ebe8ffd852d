pub mod Versions
pub mod Turns
