pub mod Kept
pub mod Noted
pub mod FramesOut
pub mod Steps
pub mod FreshStores
pub mod PageCalls
pub mod LockSeen
pub mod PageTold
pub mod FrameTold
pub mod Fits
pub mod DownTold
pub mod Numbered
pub mod Holding
pub mod Sent
mod Closing
mod FirstHeld
mod FirstWords
mod Begins
mod Cuts
