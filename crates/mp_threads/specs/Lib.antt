pub mod Threads
pub mod Dealing
