pub mod Lists
pub mod Machine
pub mod View
pub mod Rule
