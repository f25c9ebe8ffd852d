pub mod Reads
pub mod Finished
pub mod Orders
pub mod WriteOrder
pub mod Writers
pub mod Told
pub mod Counting
