pub mod Pieces
pub mod Sound
pub mod Taken
pub mod MadeLogs
mod LogTexts
pub mod LogsBelow
