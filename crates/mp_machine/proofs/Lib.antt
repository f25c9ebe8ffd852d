pub mod Lists
pub mod Views
pub mod Time
pub mod Adapter
pub mod Seats
mod Rows
