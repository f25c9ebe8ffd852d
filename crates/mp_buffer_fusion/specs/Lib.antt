pub mod Buffers
pub mod Places
pub mod Agreement
pub mod Visits
pub mod Fetching
pub mod Lending
pub mod PoolExamples
