pub mod Pages
pub mod Records
pub mod Downs
pub mod Law
pub mod Placed
mod Regions
