pub mod SameMembers
pub mod DownAt
pub mod DownMembers
pub mod Appended
pub mod ShownDraws
pub mod GivenEntries
pub mod Turns
