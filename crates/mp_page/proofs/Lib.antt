pub mod Applied
pub mod Checks
pub mod Codecs
pub mod PageAgain
pub mod PageSpelling
pub mod Steps
mod FreshPages
pub mod Sent
