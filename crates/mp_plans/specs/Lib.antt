pub mod Growth
pub mod Fitting
pub mod FirstPut
