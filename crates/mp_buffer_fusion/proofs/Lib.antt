pub mod Buffered
pub mod Kept
pub mod Worlds
pub mod Visiting
pub mod Agreeing
pub mod Fetches
pub mod Recorded
pub mod Written
pub mod Listing
mod Handover
mod WorkedPools
