pub mod Texts
pub mod Forced
pub mod Appended
pub mod OneText
pub mod Emptied
pub mod Counts
pub mod Checked
pub mod NextBatch
pub mod Opened
pub mod ReadAgain
pub mod Given
mod Tied
pub mod ReadWhole
mod KeptLog
