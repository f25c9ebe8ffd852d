pub mod Listed
pub mod Padded
pub mod Values
pub mod Folded
