pub mod CleanPages
