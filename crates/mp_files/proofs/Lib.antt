pub mod Places
pub mod Nines
pub mod Ahead
