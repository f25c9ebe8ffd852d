mod Looks
mod Forced
mod Tries
