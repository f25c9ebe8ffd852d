pub mod Changing
pub mod SmallTurns
