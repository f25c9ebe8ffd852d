pub mod Orderly
pub mod Stages
pub mod Answered
pub mod Books
pub mod SmallBooks
pub mod Through
