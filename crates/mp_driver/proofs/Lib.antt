mod TurnGoesOn
mod Turned
mod Tried
