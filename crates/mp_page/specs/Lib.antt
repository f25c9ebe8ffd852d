pub mod Grammar
pub mod Shown
pub mod Pagers
pub mod LendingPages
pub mod FreshPages
