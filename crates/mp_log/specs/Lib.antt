pub mod Logs
pub mod Tails
pub mod Reading
pub mod Opening
pub mod Readers
