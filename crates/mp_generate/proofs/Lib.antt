mod Filling
mod Rows
mod Values
mod Rounds
mod Telling
mod Counting
mod Keys
